-- The starred trials of document 01, and those of document 02's stepped builds.
pub mod Trials
pub mod StepTrials
