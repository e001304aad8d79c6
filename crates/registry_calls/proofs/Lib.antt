pub mod NoMirror
