pub mod JsonBodies
