-- Graphs, k-plexes and refusals: definitions first, then their laws.
pub mod Graph
pub mod Plex
pub mod Request
pub mod Refusal
pub mod Survey
pub mod Setting
pub mod Calls
pub mod GraphLaws
pub mod PlexLaws
pub mod LoosenessLaws
pub mod ExtensionLaws
pub mod NarrowLaws
pub mod SurveyLaws
pub mod RefusalLaws
pub mod CallLaws
