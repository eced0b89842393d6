pub mod Arguments
pub mod Status
pub mod Running
pub mod InputWords
pub mod OnBoards
