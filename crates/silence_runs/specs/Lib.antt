-- Which frames sound, and the silences between them. Sound flags are numbers, one a frame: 1 for sound, 0 for silence.
pub mod Hysteresis
pub mod HysteresisLaws
pub mod Runs
pub mod RunsLaws
pub mod RunsWalk
pub mod Fill
pub mod FillLaws
pub mod Sounds
pub mod SoundsLaws
pub mod Silences
pub mod SilencesLaws
pub mod OnePass
pub mod OnePassLaws
pub mod OnePassWalk
pub mod SoundsMono
pub mod Quiet
pub mod QuietLaws
