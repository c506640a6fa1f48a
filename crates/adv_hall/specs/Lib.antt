-- To whom a line goes, the seats of a hall, what is said in it by plays alone, and that they agree.
pub mod Address
pub mod Seats
pub mod Alone
pub mod Laws
