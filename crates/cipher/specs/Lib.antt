pub mod Aes
pub mod AesWords
pub mod Field
pub mod Figures
pub mod Speck
pub mod Tables
