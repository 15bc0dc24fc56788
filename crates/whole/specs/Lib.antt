-- What a dock grants for the rule that a volunteer wrote.
pub mod Grant
