-- What the bytes of a list of answers say, and what reading them leaves.
pub mod Input
pub mod Numbers
