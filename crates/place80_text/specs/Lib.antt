pub mod Map
pub mod ImagePublics
pub mod Board
