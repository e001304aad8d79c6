-- The names of platforms (OCI image index, `platform`): the text of each public constant.
use Rattle.std.specs.Prelude.{◌≡◌, codes, refl}
use Rattle.oci_names.specs.declared.platform.TheConstants.Arch as architecture
use Rattle.oci_names.specs.declared.platform.TheConstants.Os as system

pub amd64 : architecture.AMD64.now ≡ codes "amd64"
amd64 = refl

pub arm64 : architecture.ARM64.now ≡ codes "arm64"
arm64 = refl

pub linux : system.LINUX.now ≡ codes "linux"
linux = refl

pub windows : system.WINDOWS.now ≡ codes "windows"
windows = refl
