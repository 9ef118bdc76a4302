pub mod Histories
pub mod Rooms
pub mod Seats
