pub mod Rises
pub mod Laws
pub mod Compared
