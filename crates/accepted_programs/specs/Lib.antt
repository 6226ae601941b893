-- texts whose words are those of tokens
pub mod Texts
