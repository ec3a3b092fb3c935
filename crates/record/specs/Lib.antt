-- What the reader and the writer promise, in terms of model's specs/Record.antt: RecordRead, StepRead and Written are
-- the public promises, the others those of the functions behind them.
pub mod RecordRead
pub mod StepRead
pub mod Written
pub mod Reads
pub mod Kind
