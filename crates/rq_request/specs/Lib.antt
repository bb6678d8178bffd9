pub mod Say
