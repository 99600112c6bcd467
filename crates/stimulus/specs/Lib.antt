pub mod StimulusText
pub mod Stimulus
pub mod StimulusLaws
pub mod Inputs
pub mod Cuts
pub mod Turns
