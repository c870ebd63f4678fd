mod Growing
mod Map
mod Once
mod Tokens
mod Steps
