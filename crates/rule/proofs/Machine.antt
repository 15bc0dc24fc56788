-- Laws of the machine with a stack, which stands between the grammar and the readers; what follows of texts is beside this folder.
pub mod Class
pub mod Steps
pub mod Trace
pub mod Sound
pub mod Complete
pub mod Follow
pub mod Far
pub mod Tally
pub mod Viable
pub mod Digits
