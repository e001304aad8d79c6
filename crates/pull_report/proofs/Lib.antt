mod Refusals
mod Words
