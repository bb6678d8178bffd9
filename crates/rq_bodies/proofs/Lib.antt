pub mod BodyItems
pub mod JsonBodies
