-- A machine with a stack, by which the readers' promises to each other are said. No definition of a rule rests on it.
pub mod Class
pub mod Machine
pub mod Within
