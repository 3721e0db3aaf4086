-- What a reader has to believe.
pub mod Buffer
pub mod Cut
pub mod Literal
pub mod Paragraph
pub mod Record
