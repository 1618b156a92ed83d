pub mod AnswerOfSteps
pub mod AnswerLaws
pub mod SelectedSales
