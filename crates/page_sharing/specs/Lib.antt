pub mod Offers
pub mod Listed
