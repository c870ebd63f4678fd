mod Forms
mod Calls
mod Numbers
mod Objects
mod Tables
mod Same
