pub mod DemoRuns
