-- A dock grants exactly what the rule's program accepts.
pub mod Alphabet
pub mod Granted
pub mod EndToEnd
