-- What every answer of the operation Plan means, in terms of the output, the recording and the settings (Made), and laws under it; its theorems are in proofs/. No code.
pub mod Made
pub mod ShowsLaws
pub mod EndsLaws
pub mod FollowsLaws
pub mod Trials
