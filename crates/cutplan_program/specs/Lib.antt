-- The program over its input and output: what it makes of what it read, and what it ends with.
pub mod Program
pub mod ProgramLaws
