mod Sub
mod Whole
mod Chain
mod Apart
mod Obeying
mod InOrder
mod NamesOnce
mod Single
