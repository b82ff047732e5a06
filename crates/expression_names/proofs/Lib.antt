mod Inward
mod Looked
