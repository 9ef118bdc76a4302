pub mod GuardedHistories
pub mod HistoryLemmas
pub mod IsolatedHistories
pub mod ReportLemmas
pub mod RowLemmas
pub mod TextLemmas
