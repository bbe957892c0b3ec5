pub mod Form
pub mod Piece
pub mod Longest
pub mod Quoted
pub mod Token
pub mod Mark
pub mod Tok
