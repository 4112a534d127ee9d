pub mod AnswerCodes
