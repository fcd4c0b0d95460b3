mod Whole
mod Begun
mod Handing
mod Lines
mod Late
mod Giving
mod Left
mod Placing
