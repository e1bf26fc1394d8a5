pub mod BudgetLegal
pub mod RetriesLegal
pub mod SessionsLegal
pub mod TicketsLegal
pub mod TwoHostsLegal
