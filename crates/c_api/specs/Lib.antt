-- What the C exports promise: each call on the list that its bytes spell.
pub mod Bytes
pub mod Wear
pub mod Exports
pub mod CheckExport
pub mod OrderExports
