pub mod Opening
pub mod Speaking
pub mod OneSay
