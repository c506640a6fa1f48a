pub mod Tables
pub mod FirstPlaces
pub mod Starting
pub mod RoomExits
