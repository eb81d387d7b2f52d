-- The list, order and placing: definitions first, then their laws.
pub mod Listing
pub mod Order
pub mod Placing
pub mod OrderLaws
pub mod PlacingLaws
pub mod ListingLaws
