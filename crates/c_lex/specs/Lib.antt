pub mod Bytes
pub mod Words
pub mod Literals
pub mod Tokens
pub mod Gaps
pub mod Scan
pub mod Cut
