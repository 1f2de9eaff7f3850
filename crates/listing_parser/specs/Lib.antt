-- A listing read back: a parser, and that it gives the plan back. That it takes nothing but listings is proved in proofs/.
pub mod Parse
pub mod ParseLaws
