mod Steps
mod Moves
