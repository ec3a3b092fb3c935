-- A second account of document 01 (document 02, M-106): where the head stands and what it answers, told by the calls so
-- far and their answers alone. Deeds to Judging are that account; PastIsState, PastAnswers and JudgedAlike tie it to
-- the first one, model's specs/Step.antt and Run.antt.
pub mod Deeds
pub mod Round
pub mod Progress
pub mod Logs
pub mod Contents
pub mod Standing
pub mod Judging
pub mod PastIsState
pub mod PastAnswers
pub mod JudgedAlike
