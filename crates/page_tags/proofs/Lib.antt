mod Examples
mod Placing
mod Times
mod Heads
mod Lists
mod Desk
