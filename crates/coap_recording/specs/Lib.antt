pub mod Header
pub mod Recorder
pub mod Replayable
