pub mod StepsViews
