-- That the parser takes nothing but listings.
pub mod ParsedLaws
