mod Positions
mod Fronts
mod Seats
mod Keeps
mod Closing
mod Calls
