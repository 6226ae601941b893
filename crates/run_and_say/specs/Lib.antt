pub mod RunAndSay
