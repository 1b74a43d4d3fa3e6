-- What is written into lent buffers and read back. A table as a file is File; the others are words of buffers and of that file. Assumes nothing.
pub mod File
pub mod Placed
pub mod Cleared
pub mod FileRead
pub mod Formed
