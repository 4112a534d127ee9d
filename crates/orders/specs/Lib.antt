-- What orders and dependencies by value stand for.
pub mod Orders
