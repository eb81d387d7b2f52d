-- The largest k-plex that holds forced vertices: definitions first, then their laws.
pub mod Largest
pub mod Calls
pub mod Sought
pub mod Fit
pub mod Colour
pub mod Climb
pub mod LargestLaws
pub mod SoughtLaws
pub mod FitLaws
pub mod ColourLaws
pub mod SeekLaws
pub mod ClimbLaws
pub mod CallLaws
pub mod Task
