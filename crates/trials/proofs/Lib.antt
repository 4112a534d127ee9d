-- The theorem of the starred trials.
pub mod TrialsTheorem
pub mod StepTrialsTheorem
