mod Row
mod Seen
