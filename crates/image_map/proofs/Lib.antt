pub mod FreeRows
pub mod Listing
pub mod RangeTexts
pub mod SlotListing
pub mod TextParts
