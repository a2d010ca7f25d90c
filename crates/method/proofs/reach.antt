-- How far one changed page reaches.
pub mod SumsApart
pub mod WhereItLies
pub mod FewReached
pub mod PagesApart
pub mod RunsApart
