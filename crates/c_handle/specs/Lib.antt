pub mod Handle
pub mod Held
pub mod HeldShadow
pub mod ShadowHandle
