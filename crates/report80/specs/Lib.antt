pub mod MemoryText
pub mod StackText
pub mod DrawingText
pub mod PageText
